use Rattle.fields.specs.Working.Setting.{put-done, put-long, put-none, put-past, put_two}
use Rattle.fields.proofs.constants.put_literal.Goals as goal

pub returns-then-n-gt65535 : goal.returns-then-n-gt65535
returns-then-n-gt65535 c = search put-long

pub returns-then-buf-at : goal.returns-then-buf-at
returns-then-buf-at c = search put-past

pub returns-then-buf-at-lt2 : goal.returns-then-buf-at-lt2
returns-then-buf-at-lt2 c = search put_two

pub returns-then-decode_into : goal.returns-then-decode_into
returns-then-decode_into c = search put-done

pub returns : goal.returns
returns c = search put-none
