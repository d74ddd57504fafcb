mod Groups
mod Firsts
mod Fits
mod Leads
mod Words
mod Hearing
