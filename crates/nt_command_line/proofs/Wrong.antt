-- Words that are wrong.
use Rattle.std.proofs.Common.{◌≡◌, ◌∙◌, inl, inr, ap, sym, subst, refl, ℕ, true, false, List, ◌∷◌, [], codes, Option, Some}
use Rattle.std.specs.Prelude.{unwrap_or, slice_get}
use Rattle.std.specs.Str.{bytes_eq}
use Rattle.nt_command_line.specs.CommandLine.{entries_app, schema_app, scan_app, Begins, IsTaken, is_among}
use Rattle.nt_command_line.specs.WriteWords.{AreApart, IsWrongWrite}
use Rattle.nt_command_line.specs.SeqWords.{IsWrongSeq}
use Rattle.nt_command_line.specs.SkimWords.{CanBeSkimmed, IsWrongSkim}
use Rattle.nt_command_line.specs.MergeWords.{CanBeMerged, IsWrongMerge}
use Rattle.nt_command_line.specs.GenWords.{gen_app}
use Rattle.nt_command_line.specs.Commands.{IsNoCommand, IsWrong}
use Rattle.nt_command_line.proofs.Found.{differs}

same_some : (o : Option (List ℕ)) (x y : List ℕ) → o ≡ Some x → o ≡ Some y → x ≡ y
same_some o x y one two = ap (λ (p : Option (List ℕ)). unwrap_or p x) (sym one ∙ two)

-- words begin with one name
pub begins_once : (words : List (List ℕ)) (x y : List ℕ) → bytes_eq x y ≡ false → Begins words x → Begins words y → ⊥
begins_once words x y apart one two = differs x y apart (same_some (slice_get words 0) x y one two)

-- words that begin with `write` and are wrong
pub wrong_write : (words : List (List ℕ)) → Begins words (codes "write") → IsWrongWrite words → IsWrong words
wrong_write words begins why = record {
  write = λ auto. why;
  seq = λ other. absurd (begins_once words _ _ refl begins other);
  skim = λ other. absurd (begins_once words _ _ refl begins other);
  merge = λ other. absurd (begins_once words _ _ refl begins other);
  gen = λ other taken. begins_once words _ _ refl begins other;
  entries = λ other taken. begins_once words _ _ refl begins other;
  schema = λ other taken. begins_once words _ _ refl begins other;
  scan = λ other taken. begins_once words _ _ refl begins other;
}

-- words that begin with `seq` and are wrong
pub wrong_seq : (words : List (List ℕ)) → Begins words (codes "seq") → IsWrongSeq words → IsWrong words
wrong_seq words begins why = record {
  write = λ other. absurd (begins_once words _ _ refl begins other);
  seq = λ auto. why;
  skim = λ other. absurd (begins_once words _ _ refl begins other);
  merge = λ other. absurd (begins_once words _ _ refl begins other);
  gen = λ other taken. begins_once words _ _ refl begins other;
  entries = λ other taken. begins_once words _ _ refl begins other;
  schema = λ other taken. begins_once words _ _ refl begins other;
  scan = λ other taken. begins_once words _ _ refl begins other;
}

-- words that begin with `skim` and are wrong
pub wrong_skim : (words : List (List ℕ)) → Begins words (codes "skim") → IsWrongSkim words → IsWrong words
wrong_skim words begins why = record {
  write = λ other. absurd (begins_once words _ _ refl begins other);
  seq = λ other. absurd (begins_once words _ _ refl begins other);
  skim = λ auto. why;
  merge = λ other. absurd (begins_once words _ _ refl begins other);
  gen = λ other taken. begins_once words _ _ refl begins other;
  entries = λ other taken. begins_once words _ _ refl begins other;
  schema = λ other taken. begins_once words _ _ refl begins other;
  scan = λ other taken. begins_once words _ _ refl begins other;
}

-- words that begin with `merge` and are wrong
pub wrong_merge : (words : List (List ℕ)) → Begins words (codes "merge") → IsWrongMerge words → IsWrong words
wrong_merge words begins why = record {
  write = λ other. absurd (begins_once words _ _ refl begins other);
  seq = λ other. absurd (begins_once words _ _ refl begins other);
  skim = λ other. absurd (begins_once words _ _ refl begins other);
  merge = λ auto. why;
  gen = λ other taken. begins_once words _ _ refl begins other;
  entries = λ other taken. begins_once words _ _ refl begins other;
  schema = λ other taken. begins_once words _ _ refl begins other;
  scan = λ other taken. begins_once words _ _ refl begins other;
}

-- words that begin with `gen` and are wrong
pub wrong_gen : (words : List (List ℕ)) → Begins words (codes "gen") → (IsTaken gen_app words → ⊥) → IsWrong words
wrong_gen words begins why = record {
  write = λ other. absurd (begins_once words _ _ refl begins other);
  seq = λ other. absurd (begins_once words _ _ refl begins other);
  skim = λ other. absurd (begins_once words _ _ refl begins other);
  merge = λ other. absurd (begins_once words _ _ refl begins other);
  gen = λ auto. why;
  entries = λ other taken. begins_once words _ _ refl begins other;
  schema = λ other taken. begins_once words _ _ refl begins other;
  scan = λ other taken. begins_once words _ _ refl begins other;
}

-- words that begin with `entries` and are wrong
pub wrong_entries : (words : List (List ℕ)) → Begins words (codes "entries") → (IsTaken entries_app words → ⊥) → IsWrong words
wrong_entries words begins why = record {
  write = λ other. absurd (begins_once words _ _ refl begins other);
  seq = λ other. absurd (begins_once words _ _ refl begins other);
  skim = λ other. absurd (begins_once words _ _ refl begins other);
  merge = λ other. absurd (begins_once words _ _ refl begins other);
  gen = λ other taken. begins_once words _ _ refl begins other;
  entries = λ auto. why;
  schema = λ other taken. begins_once words _ _ refl begins other;
  scan = λ other taken. begins_once words _ _ refl begins other;
}

-- words that begin with `schema` and are wrong
pub wrong_schema : (words : List (List ℕ)) → Begins words (codes "schema") → (IsTaken schema_app words → ⊥) → IsWrong words
wrong_schema words begins why = record {
  write = λ other. absurd (begins_once words _ _ refl begins other);
  seq = λ other. absurd (begins_once words _ _ refl begins other);
  skim = λ other. absurd (begins_once words _ _ refl begins other);
  merge = λ other. absurd (begins_once words _ _ refl begins other);
  gen = λ other taken. begins_once words _ _ refl begins other;
  entries = λ other taken. begins_once words _ _ refl begins other;
  schema = λ auto. why;
  scan = λ other taken. begins_once words _ _ refl begins other;
}

-- words that begin with `scan` and are wrong
pub wrong_scan : (words : List (List ℕ)) → Begins words (codes "scan") → (IsTaken scan_app words → ⊥) → IsWrong words
wrong_scan words begins why = record {
  write = λ other. absurd (begins_once words _ _ refl begins other);
  seq = λ other. absurd (begins_once words _ _ refl begins other);
  skim = λ other. absurd (begins_once words _ _ refl begins other);
  merge = λ other. absurd (begins_once words _ _ refl begins other);
  gen = λ other taken. begins_once words _ _ refl begins other;
  entries = λ other taken. begins_once words _ _ refl begins other;
  schema = λ other taken. begins_once words _ _ refl begins other;
  scan = λ auto. why;
}

-- words that are wrong are no command
pub wrong_is_none : (words : List (List ℕ)) → IsWrong words → IsNoCommand words
wrong_is_none words wrong = record {
  no_write = λ out schema inputs p is.
      elim (wrong.write is.begins) [
        | inl refuses ↦ refuses is.taken
        | inr clash ↦
            let out-is = same_some _ _ _ clash.names.out_is is.names.out_is in
            let schema-is = same_some _ _ _ clash.names.schema_is is.names.schema_is in
            let inputs-are = clash.names.inputs_are ∙ sym is.names.inputs_are in
            clash.clash (subst (λ (o : List ℕ). AreApart o clash.schema clash.inputs) (sym out-is)
            (subst (λ (s : List ℕ). AreApart out s clash.inputs) (sym schema-is)
            (subst (λ (l : List (List ℕ)). AreApart out schema l) (sym inputs-are) is.apart)))
      ];
  no_seq = λ out schema input p is.
      elim (wrong.seq is.begins) [
        | inl refuses ↦ refuses is.taken
        | inr clash ↦
            let out-is = same_some _ _ _ clash.names.out_is is.names.out_is in
            let schema-is = same_some _ _ _ clash.names.schema_is is.names.schema_is in
            let input-is = same_some _ _ _ clash.names.input_is is.names.input_is in
            let among : is_among out (schema ∷ input ∷ []) ≡ true =
            subst (λ (o : List ℕ). is_among o (schema ∷ input ∷ []) ≡ true) out-is
            (subst (λ (s : List ℕ). is_among clash.out (s ∷ input ∷ []) ≡ true) schema-is
            (subst (λ (i : List ℕ). is_among clash.out (clash.schema ∷ i ∷ []) ≡ true) input-is clash.clash)) in
            let bad : true ≡ false = sym among ∙ is.apart in
            cc
      ];
  no_skim = λ out file names test p is.
      elim (wrong.skim is.begins) [
        | inl refuses ↦ refuses is.taken
        | inr (inl none) ↦ none test is.test_is
        | inr (inr clash) ↦
            let out-is = same_some _ _ _ clash.names_are.out_is is.names_are.out_is in
            let file-is = same_some _ _ _ clash.names_are.file_is is.names_are.file_is in
            let names-are = clash.names_are.names_are ∙ sym is.names_are.names_are in
            clash.clash (subst (λ (o : List ℕ). CanBeSkimmed o clash.file clash.names) (sym out-is)
            (subst (λ (f : List ℕ). CanBeSkimmed out f clash.names) (sym file-is)
            (subst (λ (l : List (List ℕ)). CanBeSkimmed out file l) (sym names-are) is.can)))
      ];
  no_merge = λ out files p is.
      elim (wrong.merge is.begins) [
        | inl refuses ↦ refuses is.taken
        | inr clash ↦
            let out-is = same_some _ _ _ clash.names.out_is is.names.out_is in
            let files-are = clash.names.files_are ∙ sym is.names.files_are in
            clash.clash (subst (λ (o : List ℕ). CanBeMerged o clash.files) (sym out-is)
            (subst (λ (l : List (List ℕ)). CanBeMerged out l) (sym files-are) is.can))
      ];
  no_gen = λ m out is. wrong.gen is.begins is.taken;
  no_entries = λ from count file is. wrong.entries is.begins is.taken;
  no_schema = λ file is. wrong.schema is.begins is.taken;
  no_scan = λ file is. wrong.scan is.begins is.taken;
}
