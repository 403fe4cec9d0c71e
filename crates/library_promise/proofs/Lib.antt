-- What was served along the histories of the banks was told by rows.
mod Rows
