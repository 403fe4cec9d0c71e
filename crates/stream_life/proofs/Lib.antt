mod Unworn
mod Served
