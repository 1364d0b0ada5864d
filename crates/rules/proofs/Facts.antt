pub mod SoundFacts
pub mod SoundBack
