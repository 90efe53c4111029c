mod Elders
mod Turns
mod Sums
mod Instructed
mod RoundLemmas
mod RoundsEnd
