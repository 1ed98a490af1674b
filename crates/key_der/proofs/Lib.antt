mod Answered
mod Differences
mod OneAnswer
mod Texts
