mod Clips
mod Numerals
mod Leads
mod Texts
