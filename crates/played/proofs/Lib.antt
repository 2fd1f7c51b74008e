mod Remainders
