mod Joined
mod SameBases
mod ImageLines
