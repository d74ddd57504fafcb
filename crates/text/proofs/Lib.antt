mod Rows
mod Stays
mod DraftLines
mod DriveLines
mod Unchanged
mod AnyLine
