mod Clients
mod CoverForm
mod Covering
mod Facts
mod Replied
mod Walking
mod Written
