mod Filling
mod Finishing
