-- What a reader must believe: the entries of a catalogue.
pub mod Entries
