mod Lemmas
mod ListedLaw
mod ReportLaw
mod TurnLaw
