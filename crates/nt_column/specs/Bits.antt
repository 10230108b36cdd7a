-- Truth values as elements of one bit, as nt_encode has them.
pub use Rattle.nt_encode.specs.Bits.{bit_of}
