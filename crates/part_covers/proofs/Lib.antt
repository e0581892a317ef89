mod Found
mod Numbered
mod Stages
