-- The steps of a file whose blobs are appended: what they tell, that they leave the first byte, and where they are cut off.
use Rattle.std.proofs.Common.{◌≡◌, ◌⊎◌, ◌∙◌, inl, inr, ap, sym, subst, refl, ℕ, zero, suc, ◌+◌, List, [], ◌∷◌, ◌++◌}
use Rattle.std.proofs.Common.{length, take, drop, map}
use Rattle.std.specs.List.{AllByRecursion}
use Rattle.std.proofs.lemmas.List.{map-append, length-map, take-map, drop-map}
use Rattle.nt_lists.specs.Places.{put_at}
use Rattle.nt_num.specs.Codes.{unfinished}
use Rattle.nt_num.specs.Faults.{fault}
use Rattle.nt_outside.specs.Log.{Step, Write, Append, Sync}
use Rattle.nt_outside.specs.Held.{Held, nothing_held, appended, written, synced}
use Rattle.nt_outside.specs.Reads.{Known, exactly, after_step, known_from, IsKnown}
use Rattle.nt_outside.specs.Crash.{crash_of, MayLeave}
use Rattle.nt_container.specs.Spelling.{begun}
use Rattle.nt_container.proofs.Gate.{begin-len}
use Rattle.nt_grammar.specs.Table.{Table}
use Rattle.nt_layout.specs.Headers.{header_blob}
use Rattle.nt_file_meaning.specs.Files.{HasDefect}
use Rattle.nt_close.specs.Steps.{begun_on}
use Rattle.nt_close.proofs.Finishing.{first_and_others}
use Rattle.nt_cuts.specs.Cuts.{IsOverFirst, WritesFirst, HasSync, LeavesUnfinished, LeavesUnfinishedOr}
use Rattle.nt_append.specs.Appending.{all_appended}
use Rattle.nt_seq.specs.Written.{file_so_far}

-- ---- what steps tell

known_from-push : (known : List Known) (log : List Step) (s : Step)
    → known_from known (log ++ s ∷ []) ≡ after_step (known_from known log) s
known_from-push known [] s = refl
known_from-push known (x ∷ log) s = known_from-push (after_step known x) log s

pub known-appended : (h : Held) (bytes : List ℕ) → IsKnown h.log h.image → IsKnown (appended bytes h).log (appended bytes h).image
known-appended h bytes is =
    known_from-push [] h.log (Append bytes)
    ∙ (ap (λ (k : List Known). k ++ map exactly bytes) is ∙ sym (map-append exactly h.image bytes))

pub known-synced : (h : Held) → IsKnown h.log h.image → IsKnown (synced h).log (synced h).image
known-synced h is = known_from-push [] h.log Sync ∙ is

pub known-written : (h : Held) (at : ℕ) (bytes : List ℕ) → IsKnown h.log h.image
    → IsKnown (written at bytes h).log (written at bytes h).image
known-written h at bytes is =
    known_from-push [] h.log (Write at bytes)
    ∙ (ap (λ (k : List Known). put_at k at (map exactly bytes)) is ∙ sym (put-map h.image at bytes))
  where
    put-map : (old : List ℕ) (at : ℕ) (bytes : List ℕ) → map exactly (put_at old at bytes) ≡ put_at (map exactly old) at (map exactly bytes)
    put-map old at bytes =
        map-append exactly (take at old ++ bytes) (drop (at + length bytes) old)
        ∙ (ap (λ (k : List Known). k ++ map exactly (drop (at + length bytes) old)) (map-append exactly (take at old) bytes)
        ∙ (ap (λ (k : List Known). (k ++ map exactly bytes) ++ map exactly (drop (at + length bytes) old)) (sym (take-map exactly at old))
        ∙ (ap (λ (k : List Known). (take at (map exactly old) ++ map exactly bytes) ++ k) (sym (drop-map exactly (at + length bytes) old))
        ∙ ap (λ (n : ℕ). (take at (map exactly old) ++ map exactly bytes) ++ drop (at + n) (map exactly old))
        (sym (length-map bytes exactly)))))

-- ---- steps that leave the first byte

-- no step is over the first byte
abbrev pub AreBehind : List Step → Type 0
AreBehind log = AllByRecursion (λ (s : Step). IsOverFirst s → ⊥) log

pub behind-push : (log : List Step) (s : Step) → AreBehind log → (IsOverFirst s → ⊥) → AreBehind (log ++ s ∷ [])
behind-push [] s behind last = (last, tt)
behind-push (x ∷ log) s behind last = (behind.0, behind-push log s behind.1 last)

pub behind-take : (log : List Step) (k : ℕ) → AreBehind log → AreBehind (take k log)
behind-take log zero behind = tt
behind-take [] (suc k) behind = tt
behind-take (x ∷ log) (suc k) behind = (behind.0, behind-take log k behind.1)

pub never_over : (log before after : List Step) (s : Step) → AreBehind log → log ≡ before ++ s ∷ after → IsOverFirst s → ⊥
never_over [] [] after s behind is over = cc
never_over [] (x ∷ before) after s behind is over = cc
never_over (x ∷ log) [] after s behind is over =
    let same : x ≡ s = cc in
    behind.0 (subst IsOverFirst (sym same) over)
never_over (x ∷ log) (y ∷ before) after s behind is over = never_over log before after s behind.1 (ap (drop 1) is) over

-- a log that begins with some bytes
pub record HasFirst (log : List Step) : Type 0 where
  pub byte : ℕ
  pub bytes : List ℕ
  pub more : List Step
  pub is : log ≡ Append (byte ∷ bytes) ∷ more

pub first-push : (log : List Step) (s : Step) → HasFirst log → HasFirst (log ++ s ∷ [])
first-push log s first = record {
  byte = first.byte;
  bytes = first.bytes;
  more = first.more ++ s ∷ [];
  is = ap (λ (l : List Step). l ++ s ∷ []) first.is;
}

-- a file of which all is told, and whose first byte nothing was written over
pub record IsPlain (h : Held) : Type 0 where
  pub first : HasFirst h.log
  pub behind : AreBehind h.log
  pub known : IsKnown h.log h.image

plain-appended : (h : Held) (bytes : List ℕ) → IsPlain h → IsPlain (appended bytes h)
plain-appended h bytes plain = record {
  first = first-push h.log (Append bytes) plain.first;
  behind = behind-push h.log (Append bytes) plain.behind (λ over. over);
  known = known-appended h bytes plain.known;
}

plain-blobs : (blobs : List (List ℕ)) (h : Held) → IsPlain h → IsPlain (all_appended blobs h)
plain-blobs [] h plain = plain
plain-blobs (r ∷ blobs) h plain = plain-blobs blobs (appended r h) (plain-appended h r plain)

pub plain-file : (t : Table) (blobs : List (List ℕ)) → IsPlain (file_so_far t blobs)
plain-file t blobs =
    let head = first_and_others (begun 0 0 0) 225 (begin-len 0 0 0) in
    plain-blobs blobs (begun_on (begun 0 0 0) (header_blob t) nothing_held) (record {
      first = record {
        byte = head.0;
        bytes = head.1;
        more = Append (header_blob t) ∷ Sync ∷ [];
        is = ap (λ (l : List ℕ). Append l ∷ Append (header_blob t) ∷ Sync ∷ []) head.2;
      };
      behind = ((λ over. over), ((λ over. over), ((λ over. over), tt)));
      known = sym (map-append exactly (begun 0 0 0) (header_blob t));
    })

-- ---- where a log with one more step is cut off

take-push : (k : ℕ) (log : List Step) (s : Step) → (take k (log ++ s ∷ []) ≡ take k log) ⊎ (take k (log ++ s ∷ []) ≡ log ++ s ∷ [])
take-push zero log s = inl refl
take-push (suc zero) [] s = inr refl
take-push (suc (suc k)) [] s = inr refl
take-push (suc k) (x ∷ log) s = elim (take-push k log s) [
  | inl is ↦ inl (ap (λ (l : List Step). x ∷ l) is)
  | inr is ↦ inr (ap (λ (l : List Step). x ∷ l) is)
]

-- nothing is said of the file
abbrev pub IsAny : List ℕ → Type 0
IsAny left = Unit {0}

-- what isn't finished is left, or what is whole
abbrev pub Left : (List ℕ → Type 0) → List ℕ → Type 0
Left Whole bytes = HasDefect bytes (fault unfinished 0) ⊎ Whole bytes

-- the same of a log that was cut off so
abbrev pub CutTo : (List ℕ → Type 0) → List Step → List ℕ → Type 0
CutTo Whole log bytes = HasDefect bytes (fault unfinished 0) ⊎ (WritesFirst log × Whole bytes)

module _ (Whole : List ℕ → Type 0) where
  pub or_whole : (log : List Step) → LeavesUnfinished log → LeavesUnfinishedOr Whole log
  or_whole log leaves k bytes has may = inl (leaves k bytes has may)

  pub one_more : (log : List Step) (s : Step) → LeavesUnfinishedOr Whole log → LeavesUnfinishedOr IsAny (log ++ s ∷ [])
      → ((bytes : List ℕ) → MayLeave (crash_of (log ++ s ∷ [])) bytes → Left Whole bytes) → LeavesUnfinishedOr Whole (log ++ s ∷ [])
  one_more log s before order last k bytes has may = at (take-push k log s)
    where
      whole : (l : List Step) → CutTo (λ (left : List ℕ). Unit {0}) l bytes → Left Whole bytes → CutTo Whole l bytes
      whole l (inl none) left = inl none
      whole l (inr writes) (inl none) = inl none
      whole l (inr writes) (inr is) = inr (writes.0, is)

      at : (take k (log ++ s ∷ []) ≡ take k log) ⊎ (take k (log ++ s ∷ []) ≡ log ++ s ∷ [])
          → CutTo Whole (take k (log ++ s ∷ [])) bytes
      at (inl e) =
          subst (λ (l : List Step). CutTo Whole l bytes) (sym e)
          (before k bytes (subst HasSync e has) (subst (λ (l : List Step). MayLeave (crash_of l) bytes) e may))
      at (inr e) =
          whole (take k (log ++ s ∷ [])) (order k bytes has may)
          (last bytes (subst (λ (l : List Step). MayLeave (crash_of l) bytes) e may))
