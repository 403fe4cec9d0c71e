mod Tables
mod Parted
mod OnePart
