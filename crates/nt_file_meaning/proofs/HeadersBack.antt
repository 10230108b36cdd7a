-- A header that is written is read back.
use Rattle.std.proofs.Common.{◌≡◌, ℕ, ◌+◌, ◌<◌, ◌^◌, List, [], ◌++◌, length, Ok, refl, ap, ◌∙◌, append_assoc, arith}
use Rattle.std.specs.Int.{w64, to_le_bytes}
use Rattle.nt_format.specs.Reading.{standing, ReadsAs}
use Rattle.nt_format.specs.Strings.{string}
use Rattle.nt_format.proofs.Placed.{text_at, text-reads}
use Rattle.nt_grammar.specs.Table.{Table, no_rows}
use Rattle.nt_grammar.specs.Reading.{description_at}
use Rattle.nt_grammar.specs.Writing.{description, part_fields, part_columns}
use Rattle.nt_grammar.specs.ReadingBack.{IsDescribed, up_to}
use Rattle.nt_grammar.specs.declared.part.Part.TheVariants.{Header}
use Rattle.nt_grammar.proofs.ReadingParts.{part-reads}
use Rattle.nt_pagelists.specs.Footers.{feature_flags_at}
use Rattle.nt_pagelists.proofs.Parts.{back-below}
use Rattle.nt_pagelists.proofs.FootersBack.{flags-read}
use Rattle.nt_file_meaning.specs.Headers.{header_payload_at, ntuple_name, writer_name, header_text}

chain : (place : ℕ) (read : Table) (a b c d e x y z rest : List ℕ) → ReadsAs feature_flags_at a 0 → ReadsAs text_at b x
    → ReadsAs text_at c y → ReadsAs text_at d z
    → ReadsAs (description_at Header no_rows) e read → header_payload_at (standing place (a ++ (b ++ (c ++ (d ++ (e ++ rest)))))) ≡ Ok read
unfolding header_payload_at text_at
chain place read a b c d e x y z rest p q r s t =
    rw (
      p place (b ++ (c ++ (d ++ (e ++ rest)))),
      q (place + length a) (c ++ (d ++ (e ++ rest))),
      r (place + length a + length b) (d ++ (e ++ rest)),
      s (place + length a + length b + length c) (e ++ rest),
      t (place + length a + length b + length c + length d) rest,
    ) refl

pub header-reads : (t : Table) (place : ℕ) (rest : List ℕ) → IsDescribed t → length t.fields < 2 ^ 32 → length t.columns < 2 ^ 32
    → length (header_text t) < 2 ^ 63
    → header_payload_at (standing place (header_text t ++ rest)) ≡ Ok (up_to Header t)
unfolding header_text
header-reads t place rest is fields columns short =
    let a = to_le_bytes w64 0 in
    let b = string ntuple_name in
    let c = string [] in
    let d = string writer_name in
    let e = description (part_fields Header t) (part_columns Header t) in
    let grouped : (a ++ (b ++ (c ++ (d ++ e)))) ++ rest ≡ a ++ (b ++ (c ++ (d ++ (e ++ rest)))) = simp append_assoc in
    let e_short : length e < 2 ^ 63 = back-below d e (2 ^ 63)
    (back-below c (d ++ e) (2 ^ 63) (back-below b (c ++ (d ++ e)) (2 ^ 63) (back-below a (b ++ (c ++ (d ++ e))) (2 ^ 63) short))) in
    ap (λ (l : List ℕ). header_payload_at (standing place l)) grouped
    ∙ chain place (up_to Header t) a b c d e ntuple_name [] writer_name rest flags-read (text-reads ntuple_name (omega arith))
    (text-reads [] (omega arith))
    (text-reads writer_name (omega arith)) (λ at after. part-reads Header t at after is fields columns e_short)
