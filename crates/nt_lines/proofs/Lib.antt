mod LentPlans
mod Placed
mod Written
