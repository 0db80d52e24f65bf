-- What row 1 says of the calls on a summary.
pub mod Fits
