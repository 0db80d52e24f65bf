-- The numbers that a C caller gets: document 01's number and values of an outcome.
-- Assumes nothing.
use Rattle.std.specs.Prelude.{get_or}
use Rattle.catalogue_standings.specs.Answers.{number_of, values_of}
use Rattle.card.specs.declared.Outcome.{Outcome}
use Rattle.pagunlit_replies.specs.declared.Reply.{Reply}

-- 0 or the refusal's number, and the values that go with it, in their order; 0 where there are none.
abbrev pub reply_of : Outcome → Reply
reply_of outcome = record {
  shape = outcome.shape;
  number = number_of outcome.answer;
  first = get_or (values_of outcome.answer) 0 0;
  second = get_or (values_of outcome.answer) 1 0;
  third = get_or (values_of outcome.answer) 2 0;
}
