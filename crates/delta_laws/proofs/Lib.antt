mod Puts
mod Tells
mod Roots
mod StepsGiveHoldings
mod JournalsGiveHoldings
mod Common
