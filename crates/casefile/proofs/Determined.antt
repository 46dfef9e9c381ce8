-- Each contract equates the result, and what is left, with a definition of what was given, so two that it allows coincide.
use mathlib.Core.Path.{refl, sym, ◌∙◌}
use Rattle.table.proofs.Results.{by_equation, by_result, by_result_lent}
use Rattle.output.proofs.Determined.{after_writes, determined as output-determined}
use Rattle.casefile.specs.Pieces.{pairs_after}
use Rattle.casefile.specs.Laws.{Determined, PhyBack}
use Rattle.casefile.proofs.Sliding.{case_determined}

pub determined : Determined
determined =
    record {
      take = λ s place. by_result (λ r a. a.says);
      take_bytes = λ s place. by_result (λ r a i. record { value = a.says i; next = a.there i });
      take_many = λ before s place. by_result (λ r a i. record { value = a.numbers i; next = a.there i });
      take_array = λ count s place. by_result (λ r a i. record { value = a.numbers i; next = a.there i });
      end = λ old new later a b i. record { s = (a.ends.same_file ∙ sym b.ends.same_file) i; place = (a.there ∙ sym b.there) i };
      phy_of = λ f. by_equation _;
      phy_numbers = λ p. by_equation _;
      event_of = λ f. by_equation _;
      put_piece = λ piece times before n. by_result_lent (λ r q e. e) (λ r after a. record {
        says = λ i. (a.whole_says i, a.puts.there i);
        leaves = a.puts.stored;
      });
      put_pieces = λ s place before n. by_result_lent (λ r q e. e) (λ r after a. record {
        says = λ i. (a.there i, a.whole_says i, a.puts.there i);
        leaves = a.puts.stored;
      });
      put_repeats = λ kind bytes. output-determined.put_line kind (pairs_after 0 bytes);
      next_case = case_determined;
      take_case = λ old new later a b. a.same_file ∙ sym b.same_file;
      list_case = λ old new later a b i. record { s = (a.ends.same_file ∙ sym b.ends.same_file) i; place = (a.there ∙ sym b.there) i };
      take_all = λ r q. after_writes;
    }

pub phy_back : PhyBack
phy_back p = refl
