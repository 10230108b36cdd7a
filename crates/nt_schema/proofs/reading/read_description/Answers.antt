use Rattle.std.proofs.Common.{◌≡◌, ◌^◌, ◌<◌, ℕ, List, ◌*◌, ◌++◌, length, Result, Ok, Err, OnOk, ap, ◌∙◌, subst, arith}
use Rattle.std.proofs.lemmas.List.{length-append}
use Rattle.nt_num.specs.Place.{At}
use Rattle.nt_format.specs.Reading.{standing, IsBytes}
use Rattle.nt_schema.specs.declared.description_error.DescriptionError.{DescriptionError}
use Rattle.nt_grammar.specs.Table.{Table}
use Rattle.nt_grammar.specs.Writing.{description, part_fields, part_columns}
use Rattle.nt_grammar.specs.Reading.{description_at}
use Rattle.nt_grammar.specs.ReadingBack.{before}
use Rattle.nt_num.specs.declared.fault.ReadError.{ReadError}
use Rattle.nt_lists.specs.Answering.{Answers}
use Rattle.nt_schema.specs.Reading.{fault_of}
use Rattle.nt_schema.proofs.reading.read_description.Goals as goal

-- a front of few bytes has few
front-few : (bytes text rest : List ℕ) → length bytes * 1 < 2 ^ 63 → bytes ≡ text ++ rest → length text < 2 ^ 63
front-few bytes text rest few e = omega (arith, length-append text rest, ap length e)

pub returns-clause-written : goal.returns-clause-written
returns-clause-written c t rest is few_fields few_columns old left =
    let part = c.args.part in
    let cur = c.args.cur.now in
    let bytes = subst (λ (l : List ℕ). length l * 1 < 2 ^ 63) c.rest.ensures c.rest.type_inv.1 in
    let fits = front-few cur.left (description (part_fields part t) (part_columns part t)) rest bytes left in
    let law = c.descriptions_are_read_back.ensures.parts part t cur.place rest is few_fields few_columns fits in
    subst (λ (r : Result (Table × At) ReadError). Answers
    (λ _. (c.read_lists.new.schema, c.read_lists.new.cur)) fault_of c.read_lists.result r)
    (ap (λ (s : Table). description_at part s cur) old
    ∙ (ap (λ (l : List ℕ). description_at part (before part t) (standing cur.place l)) left ∙ law))
    c.read_lists.ensures.told

-- what a reading gives holds of a call that answers Ok
on_ok : {P : Type 0} (result : Result (Unit {0}) DescriptionError) (read : Table) (after : At) (reading : Result (Table × At) ReadError)
    → Answers (λ _. (read, after)) fault_of result reading → (reading ≡ Ok (read, after) → P) → OnOk result P
on_ok (Ok done) read after reading told h = h told
on_ok (Err e) read after reading told h = tt

pub returns-clause-adds : goal.returns-clause-adds
returns-clause-adds c =
    let bytes = subst IsBytes c.rest.ensures c.are_bytes.ensures in
    on_ok c.read_lists.result c.read_lists.new.schema c.read_lists.new.cur
    (description_at c.args.part c.args.schema.now c.args.cur.now) c.read_lists.ensures.told
    (c.rows_read_are_described.ensures.adds c.args.part c.args.schema.now c.read_lists.new.schema c.args.cur.now c.read_lists.new.cur bytes)

pub returns-clause-described : goal.returns-clause-described
returns-clause-described c =
    let bytes = subst IsBytes c.rest.ensures c.are_bytes.ensures in
    on_ok c.read_lists.result c.read_lists.new.schema c.read_lists.new.cur
    (description_at c.args.part c.args.schema.now c.args.cur.now) c.read_lists.ensures.told
    (λ e. c.rows_read_are_described.ensures.described c.args.part c.args.schema.now c.read_lists.new.schema
    (c.rows_read_are_described.ensures.adds c.args.part c.args.schema.now c.read_lists.new.schema c.args.cur.now c.read_lists.new.cur bytes
    e))
