-- What the contracts of `blocks_of_card` cite.
pub mod Card
