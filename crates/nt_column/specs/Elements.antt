-- The elements of columns, as nt_encode has them, and their text.
use Rattle.std.specs.Prelude.{ℕ, ◌%◌, List, map}
pub use Rattle.nt_encode.specs.Elements.{Element, plain, numbers, tags, page_of, page_elements, IsElementOf, AreElementsOf}

-- the text of elements: of each number its low byte
abbrev pub text_of : List Element → List ℕ
text_of es = map (λ n. n % 256) (numbers es)
