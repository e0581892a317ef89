mod Numbers
mod Places
mod Comparing
mod Rules
