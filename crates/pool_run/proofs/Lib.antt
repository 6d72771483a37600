mod Fairs
mod Gathered
mod Lists
mod Settled
