-- What stands before the input of a sum in pieces.
use Rattle.std.specs.Prelude.{ℕ, List, replicate}

-- a stripe of zeros
unfoldable pub zero_stripe : List ℕ
zero_stripe = replicate 64 0
