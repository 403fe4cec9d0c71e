mod Placing
mod Laying
mod Patching
mod Sectoring
mod Moving
mod Parting
mod Reading
mod Answering
