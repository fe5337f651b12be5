pub mod TellingLaws
