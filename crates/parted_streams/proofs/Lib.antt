mod Numbered
mod Streamed
mod OneStream
