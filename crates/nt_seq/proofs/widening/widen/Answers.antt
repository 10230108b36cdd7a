use Rattle.nt_seq.proofs.widening.widen.Goals as goal

pub returns-clause-parts : goal.returns-clause-parts
returns-clause-parts c =
    let laws = c.added_columns_change_no_part.ensures in
    let u = c.args.schema.now in
    let old = c.args.book.now in
    let new = c.widen.new.self in
    let is = c.in_ok-widen.ensures.ok in
    record {
      beside = λ t most beside sum. laws.beside t u most old new _ c.keeps.ensures c.keeps-2.ensures beside sum is;
      sizes = λ t most beside sum sizes. laws.sizes t u most old new _ c.keeps.ensures c.keeps-2.ensures beside sum is sizes;
      parts = λ t most ranges beside sum. laws.parts t u most old new _ ranges c.keeps.ensures c.keeps-2.ensures beside sum is;
    }
