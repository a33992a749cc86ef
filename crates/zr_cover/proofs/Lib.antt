mod Near
mod Splitting
mod ExactEnds
mod Coverings
mod Stacks
mod Growing
mod Rays
