mod LongCells
mod Lists
mod Made
mod Wholes
mod Examples
