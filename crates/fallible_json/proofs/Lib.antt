mod Lemmas
mod Reading
