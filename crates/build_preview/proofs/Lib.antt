mod Answer
