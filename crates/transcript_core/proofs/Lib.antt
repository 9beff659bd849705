mod Following
mod OnceEach
mod Trying
mod Drafting
