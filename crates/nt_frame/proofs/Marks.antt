-- What marks say of bytes, after each step of writing.
use Rattle.std.proofs.Common.{◌≡◌, ℕ, ◌+◌, ◌≤◌, List, [], ◌∷◌, ◌++◌, length, take, drop, reverse, refl, sym, ap, subst, ◌∙◌, arith}
use Rattle.std.proofs.lemmas.List.{reverse-append, take_at, take-append-le, drop-append-le, drop_all, length-append, length-take}
use Rattle.nt_frame.specs.declared.writing.Mark.{Mark}
use Rattle.nt_frame.specs.Writing.{bytes_added, frame_begun, frame, frame_finished}
use Rattle.nt_frame.specs.Marks.{head_len, marked, AreMarks}

pub AreMarks-longer : (marks : List Mark) (len more : ℕ) → len ≤ more → AreMarks marks len → AreMarks marks more
AreMarks-longer [] len more le h = tt
AreMarks-longer (m ∷ marks) len more le h = (omega (arith, h.0), h.1)

pub written-append : (marks : List Mark) (out bytes : List ℕ) → AreMarks marks (length out)
    → marked marks (out ++ bytes) ≡ bytes_added bytes (marked marks out)
written-append [] out bytes h = refl
written-append (m ∷ marks) out bytes h =
    let behind : drop (m.at + head_len m.count) (out ++ bytes) ≡ drop (m.at + head_len m.count) out ++ bytes =
    drop-append-le (m.at + head_len m.count) out bytes h.0 in
    let ahead : take m.at (out ++ bytes) ≡ take m.at out = take-append-le m.at out bytes (omega (arith, h.0)) in
    rw (behind, ahead) refl

pub AreMarks-append : (marks : List Mark) (out bytes : List ℕ) → AreMarks marks (length out) → AreMarks marks (length (out ++ bytes))
AreMarks-append marks out bytes h = AreMarks-longer marks (length out) (length (out ++ bytes)) (omega (arith, length-append out bytes)) h

pub ruleset appends = (written-append, AreMarks-append)

reverse-push : (marks : List Mark) (m : Mark) → reverse (marks ++ m ∷ []) ≡ m ∷ reverse marks
reverse-push marks m = reverse-append marks (m ∷ [])

pub written-push : (marks : List Mark) (m : Mark) (out head : List ℕ) → m.at ≡ length out → length head ≡ head_len m.count
    → marked (reverse (marks ++ m ∷ [])) (out ++ head) ≡ frame_begun m.count (marked (reverse marks) out)
written-push marks m out head at len =
    let nothing : drop (m.at + head_len m.count) (out ++ head) ≡ [] =
    drop_all (m.at + head_len m.count) (out ++ head) (omega (arith, length-append out head)) in
    let before : take m.at (out ++ head) ≡ out = take_at out head m.at (sym at) in
    rw (reverse-push marks m, nothing, before) refl

pub AreMarks-push : (marks : List Mark) (m : Mark) (out head : List ℕ) → m.at ≡ length out → length head ≡ head_len m.count
    → AreMarks (reverse marks) (length out)
    → AreMarks (reverse (marks ++ m ∷ [])) (length (out ++ head))
AreMarks-push marks m out head at len h =
    rw (reverse-push marks m) (omega (arith, length-append out head), subst (AreMarks (reverse marks)) (sym at) h)

-- the frame of the last mark becomes bytes of the one that it is in
pub written-pop : (marks : List Mark) (m : Mark) (out : List ℕ) → AreMarks (reverse (marks ++ m ∷ [])) (length out)
    → marked (reverse marks) (take m.at out ++ frame m.count (drop (m.at + head_len m.count) out)) ≡ frame_finished
    (marked (reverse (marks ++ m ∷ [])) out)
written-pop marks m out h =
    let top = subst (λ (l : List Mark). AreMarks l (length out)) (reverse-push marks m) h in
    let at : length (take m.at out) ≡ m.at = omega (arith, length-take m.at out, top.0) in
    rw (reverse-push marks m)
    (written-append (reverse marks) (take m.at out) (frame m.count (drop (m.at + head_len m.count) out))
    (subst (AreMarks (reverse marks)) (sym at) top.1))

pub AreMarks-pop : (marks : List Mark) (m : Mark) (out text : List ℕ) → AreMarks (reverse (marks ++ m ∷ [])) (length out)
    → AreMarks (reverse marks) (length (take m.at out ++ text))
AreMarks-pop marks m out text h =
    let top = subst (λ (l : List Mark). AreMarks l (length out)) (reverse-push marks m) h in
    AreMarks-longer (reverse marks) m.at (length (take m.at out ++ text))
    (omega (arith, length-append (take m.at out) text, length-take m.at out, top.0)) top.1

pub head-fits : (marks : List Mark) (m : Mark) (len : ℕ) → AreMarks (reverse (marks ++ m ∷ [])) len → m.at + head_len m.count ≤ len
head-fits marks m len h = (subst (λ (l : List Mark). AreMarks l len) (reverse-push marks m) h).0

-- what finishing does to the marks and the bytes
pub finish-step : (old new : List Mark) (m : Mark) (out after : List ℕ) → old ≡ new ++ m ∷ []
    → after ≡ take m.at out ++ frame m.count (drop (m.at + head_len m.count) out) → AreMarks (reverse old) (length out)
    → AreMarks (reverse new) (length after) × (marked (reverse new) after ≡ frame_finished (marked (reverse old) out))
finish-step old new m out after popped filled h =
    let marks = subst (λ (l : List Mark). AreMarks (reverse l) (length out)) popped h in
    let text : List ℕ = frame m.count (drop (m.at + head_len m.count) out) in (
      subst (λ (l : List ℕ). AreMarks (reverse new) (length l)) (sym filled) (AreMarks-pop new m out text marks),
      ap (marked (reverse new)) filled ∙ written-pop new m out marks
          ∙ ap (λ (l : List Mark). frame_finished (marked (reverse l) out)) (sym popped),
    )

-- with no frame begun all bytes are there
pub written-done : (marks : List Mark) (out : List ℕ) → (marked marks out).frames ≡ [] → (marked marks out).inside ≡ out
written-done [] out e = refl
written-done (m ∷ marks) out e = absurd cc
