mod LoadWords
mod WordFaults
