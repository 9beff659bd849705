mod Standing
mod Rising
mod Telling
mod Looping
mod Placing
