use Rattle.std.proofs.Common.{◌≡◌, ◌++◌, length, drop, ap, ◌∙◌, subst, append-nil, arith, rules}
use Rattle.std.proofs.lemmas.List.{drop_all}
use Rattle.survivors.specs.Choices.{byte_at}
use Rattle.survivors.specs.Laws.{first_back, letters_back}
use Rattle.survivors.proofs.Tracing.{back_by}
use Rattle.survivors.proofs.traceback.walk_back.Goals as goal

pub loop-k-preserved : goal.loop-k-preserved
loop-k-preserved c =
    let l = c.loop-k in
    let w = back_by c.args.choices.now l.letters l.k l.state c.place_of.result c.letter_of.result c.state_before-state.result c.loop-k-test.true (omega arith)
    c.place_of.ensures c.letter_of.ensures c.state_before-state.ensures in
    (search rules, w.0 ∙ l.invariant.1, w.1 ∙ l.invariant.2)

pub returns : goal.returns
returns c =
    let bs = byte_at c.args.choices.now in
    let n = length c.args.letters.now in
    let none : c.loop-k.k ≡ 0 = omega arith in
    record {
      first = subst (λ j. first_back bs j c.loop-k.state ≡ first_back bs n c.args.last) none c.loop-k.invariant.1;
      letters = subst (λ j. letters_back bs j c.loop-k.state ++ drop j c.loop-k.letters ≡ letters_back bs n c.args.last ++ drop n c.args.letters.now) none c.loop-k.invariant.2
          ∙ ap (λ w. letters_back bs n c.args.last ++ w) (drop_all n c.args.letters.now (omega arith)) ∙ append-nil (letters_back bs n c.args.last);
    }
