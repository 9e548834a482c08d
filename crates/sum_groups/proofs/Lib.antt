mod Collecting
mod Failing
mod Printing
