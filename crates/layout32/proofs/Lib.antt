pub mod OldAreas
