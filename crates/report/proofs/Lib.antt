mod Growing
mod Spacing
