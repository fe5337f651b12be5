mod Minimum
