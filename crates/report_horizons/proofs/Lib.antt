mod Front
mod Greatest
mod Ordered
