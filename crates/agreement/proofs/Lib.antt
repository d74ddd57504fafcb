mod Divisions
mod Older
mod Tracks
mod Agreed
mod Served
