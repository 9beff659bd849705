mod Firsts
mod Giving
mod Searching
mod WaysGiven
mod WaysTaken
