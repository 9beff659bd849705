mod Repeats
