mod Chains
mod Worked
