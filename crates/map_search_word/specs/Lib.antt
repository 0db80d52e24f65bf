-- What the contracts of `scan_word` cite.
pub mod Scan
