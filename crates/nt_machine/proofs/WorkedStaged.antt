-- The worked staged run is one, and so is its history.
use Rattle.std.proofs.Common.{true, refl, arith}
use Rattle.nt_machine.specs.Legal.{IsLegal}
use Rattle.nt_machine.specs.Machine.{IsRun}
use Rattle.nt_machine.specs.Staging.{KeepsStaging}
use Rattle.nt_machine.specs.Example.{example_blob, example_chunks, staged_steps, staged_history}
use Rattle.nt_machine.proofs.Worked.{two}

pub runs : IsRun true example_chunks example_blob 10 staged_steps
runs = (
  refl,
  (refl, refl, omega arith, omega arith),
  (
    refl,
    (refl, refl, omega arith, omega arith),
    (
      refl,
      (record { range = _; at = refl; own = refl; out = refl }, refl),
      (
        refl,
        (record { range = _; at = refl; own = refl; out = refl }, λ e. cc),
        (
          refl,
          (refl, refl, omega arith, omega arith),
          (
            refl,
            (record { range = _; at = refl; own = refl; out = refl }, refl),
            (
              refl,
              (record { range = _; at = refl; own = refl; out = refl }, λ e. cc),
              (
                refl,
                (refl, refl, refl, (λ e. absurd (omega arith), (λ e. refl, (λ e. refl, tt)))),
                (
                  refl,
                  (record { range = _; at = refl; own = refl; out = refl }, refl),
                  (
                    refl,
                    (record { range = _; at = refl; own = refl; out = refl }, λ e. cc),
                    (
                      refl,
                      (refl, refl, refl, (λ e. refl, (λ e. absurd (omega arith), (λ e. absurd (omega arith), tt)))),
                      (
                        refl,
                        (refl, (λ e m. cc, (λ e m. cc, (λ e m. cc, tt)))),
                        (
                          refl,
                          (refl, (λ e m. cc, (λ e m. cc, (λ e m. cc, tt)))),
                          (
                            refl,
                            record {
                              ended = two (λ i. _) refl refl;
                              whole = two (λ i. _) refl refl;
                              settled = (refl, (refl, (refl, tt)));
                              ordered = ((2, omega arith, refl), ((0, omega arith, refl), ((1, omega arith, refl), tt)));
                            },
                            tt,
                          ),
                        ),
                      ),
                    ),
                  ),
                ),
              ),
            ),
          ),
        ),
      ),
    ),
  ),
)

pub legal : IsLegal 100 staged_history
legal = (
  (refl, omega arith),
  (
    (refl, omega arith),
    (
      (record { cluster = _; at = refl; own = refl; out = refl }, refl),
      (
        (refl, omega arith),
        (
          (record { cluster = _; at = refl; own = refl; out = refl }, tt),
          (
            (refl, (tt, (tt, tt))),
            (
              (record { cluster = _; at = refl; own = refl; out = refl }, tt),
              (
                (refl, (tt, tt)),
                tt,
              ),
            ),
          ),
        ),
      ),
    ),
  ),
)

pub staging : KeepsStaging true staged_history
staging = ((refl, refl), ((refl, refl), ((tt, tt), ((refl, refl), ((tt, tt), ((refl, refl), ((tt, tt), ((refl, refl), tt))))))))
