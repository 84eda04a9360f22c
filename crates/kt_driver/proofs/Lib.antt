mod Completeness
mod FirstBreaks
mod Refused
