mod Assembling
