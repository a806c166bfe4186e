use Rattle.std.proofs.Common.{refl}
use Rattle.blocks.proofs.examples.examples_stand.Goals as goal

pub returns : goal.returns
returns c =
    record {
      size = refl;
      first = (refl, refl);
      second = (refl, refl);
      third = (refl, refl);
      at_end = refl;
      past_end = refl;
      nothing = refl;
      cut_header = refl;
      cut_payload = refl;
      kind_259 = refl;
      kind_0 = refl;
      kind_4 = refl;
      samples_first = refl;
      end_first = refl;
      description_later = refl;
      odd = refl;
      full_end = refl;
      after_end = refl;
      high_length = refl;
      samples_three = refl;
      samples_ends = refl;
    }
